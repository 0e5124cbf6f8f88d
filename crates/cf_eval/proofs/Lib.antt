pub mod NumberLemmas
pub mod NarrowLemmas
pub mod ReadLemmas
pub mod ItemLemmas
pub mod SpellLemmas
pub mod ReturnLemmas
pub mod JoinLemmas
pub mod Binding
pub mod Ends
pub mod Reaching
pub mod SetLists
pub mod Tries
pub mod FormLemmas
pub mod UnionLemmas
mod SpellingExamples
mod ReplyExamples
