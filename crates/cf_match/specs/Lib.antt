pub mod Classes
pub mod Forms
pub mod Kept
pub mod Laws
pub mod Matches
