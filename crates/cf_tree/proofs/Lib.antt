mod AllowedExamples
pub mod BaseLemmas
mod CodeTypingExamples
mod LeavesExamples
pub mod LeavesLaws
mod MeaningExamples
mod OccursExamples
mod OverPartsExamples
mod OverTermsExamples
mod RelationExamples
pub mod OneOutcomeLemmas
pub mod RisingLemmas
pub mod SetLemmas
pub mod SliceLemmas
pub mod SolvingLemmas
mod SourceExamples
mod SpelledExamples
mod TargetExamples
pub mod TupleLemmas
mod TypingExamples
mod WhereExamples
