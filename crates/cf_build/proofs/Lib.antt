pub mod BuiltLaws
pub mod CallExamples
pub mod CalledCodes
pub mod ChooseLists
pub mod CodeLists
pub mod CodeOrder
pub mod CodeSpelling
pub mod CodeTyping
pub mod EnteredChooses
pub mod KnownLaws
pub mod LoopSteps
pub mod MarkLaws
pub mod LoweredAnswers
pub mod Meanings
pub mod NumberOrder
pub mod OrderExamples
pub mod PickedPaths
pub mod Plain
pub mod Programs
pub mod PutLaws
pub mod ChooseLaws
pub mod Rewriting
pub mod Runs
pub mod SolveLists
pub mod Values
pub mod PassLists
mod CodeExamples
mod ImproveExamples
