pub mod Pieces
pub mod Names
pub mod Words
pub mod Helpers
pub mod Sources
