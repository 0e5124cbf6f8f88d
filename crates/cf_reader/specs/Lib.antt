pub mod Tokens
pub mod Readers
pub mod Kinds
pub mod Operations
pub mod Answers
pub mod Faults
