pub mod TraceLaws
pub mod ProveLaws
mod TraceExamples
