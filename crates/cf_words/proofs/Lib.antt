mod WordsExamples
pub mod RowLemmas
pub mod Uses
pub mod LevelLaws
pub mod FlaggedLaws
pub mod PairedLaws
pub mod EmitUses
pub mod EmitLaws
pub mod GrammarLaws
pub mod FoundLemmas
pub mod SizeLemmas
