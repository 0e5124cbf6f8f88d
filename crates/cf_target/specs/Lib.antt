pub mod Spelling
pub mod Levels
pub mod Reading
pub mod Targets
