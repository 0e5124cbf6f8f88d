pub mod Answers
pub mod Finding
pub mod Trying
