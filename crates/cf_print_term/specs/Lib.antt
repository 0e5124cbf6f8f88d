pub mod Marks
pub mod Terms
pub mod TermView
pub mod Expressions
pub mod Summing
pub mod Reading
pub mod Rows
