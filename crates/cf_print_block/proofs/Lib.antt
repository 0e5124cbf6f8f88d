pub mod LoopLaws
pub mod ParameterLaws
pub mod StatementLaws
pub mod StatementExamples
