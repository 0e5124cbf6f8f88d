pub mod Arms
pub mod CodeLists
pub mod DeadLaws
pub mod DeadLists
mod Examples
mod FoldExamples
pub mod FoldLaws
pub mod FoldLemmas
pub mod FormTrees
pub mod Forms
pub mod ImproveLaws
pub mod LetArms
mod LetExamples
pub mod LetFalls
pub mod LetItems
pub mod LetLaws
pub mod LetLemmas
pub mod LetMarks
pub mod LetMoves
pub mod LoopSteps
mod NameExamples
pub mod NeedsArms
pub mod NeedsLaws
pub mod NeedsLists
pub mod Sound
mod WalkExamples
pub mod WalkForms
pub mod WalkLists
pub mod WalkSteps
pub mod Ways
mod LengthExamples
mod MadeExamples
