pub mod Variables
pub mod Gives
pub mod Spans
pub mod Numerals
pub mod Forms
pub mod Words
pub mod Codes
pub mod Targets
mod PrintedExamples
