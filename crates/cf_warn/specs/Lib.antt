pub mod Verdicts
pub mod Answering
pub mod Covers
pub mod Questions
pub mod Missing
pub mod Classes
pub mod Solutions
pub mod Writing
