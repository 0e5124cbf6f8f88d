mod ClassExamples
mod ClassLaws
mod FormExamples
mod FormLaws
mod LoopSteps
pub mod LoweredLaws
mod KeptLaws
mod LoweringExamples
mod MatchExamples
mod MatchLists
mod Matches
mod NoFormLaws
pub mod NoMatchLaws
mod NumberLaws
pub mod Outcomes
pub mod Patterns
pub mod ProgramLaws
mod ProgramTypes
mod Tests
mod TypedLaws
pub mod Variables
