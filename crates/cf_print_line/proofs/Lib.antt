pub mod LineExamples
pub mod StatementLineExamples
