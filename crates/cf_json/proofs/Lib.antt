pub mod ListLemmas
mod TextExamples
