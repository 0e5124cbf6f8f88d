mod BaseLaws
mod ConstantExamples
mod ConstantLaws
mod CountedLaws
mod DivisorLaws
pub mod EditionExamples
mod FormExamples
mod FoundExamples
mod HeldLaws
pub mod Kept
pub mod LanguageTwo
mod LateExamples
mod LimitExamples
mod LinearExamples
mod LinearLaws
mod LoweredExamples
mod NameLaws
mod PatternLaws
mod PlainForms
pub mod PlainTypes
pub mod ProgramLaws
mod ReadsLaws
mod Rising
pub mod RuleExamples
pub mod SizeLemmas
mod SomeLaws
mod SourceExamples
mod SpelledExamples
mod TreeExamples
mod WalkLaws
