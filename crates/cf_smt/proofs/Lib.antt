pub mod LetLists
pub mod EachLaws
pub mod LoopLaws
pub mod CodeLaws
mod TermExamples
mod ClaimExamples
