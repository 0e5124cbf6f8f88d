pub mod TermLists
pub mod NumeralLists
pub mod ReadsBack
pub mod TermExamples
pub mod SignExamples
