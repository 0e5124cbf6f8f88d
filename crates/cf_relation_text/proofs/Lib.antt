pub mod Stretches
pub mod Spelled
mod TextExamples
