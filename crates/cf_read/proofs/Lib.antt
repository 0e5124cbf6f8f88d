pub mod ReadingLaws
pub mod SystemLaws
pub mod FormulaLaws
pub mod FormulaCode
pub mod WholeLaws
mod Examples
mod FormulaExamples
