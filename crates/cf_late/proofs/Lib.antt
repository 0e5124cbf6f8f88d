pub mod AllowedLaws
pub mod Calls
pub mod Evaluation
pub mod Loops
pub mod OperationLaws
pub mod RunnableLaws
pub mod ValuesLaws
mod ProgramExamples
mod RunExamples
mod TextExamples
pub mod ChooseLaws
pub mod KnownLaws
mod ChooseExamples
mod KnownExamples
