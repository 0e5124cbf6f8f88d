pub mod Cleaning
pub mod Dropping
pub mod Exact
pub mod CleanAnswers
pub mod Picking
pub mod Searching
pub mod Sides
