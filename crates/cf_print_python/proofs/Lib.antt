pub mod FilterExamples
pub mod OpeningExamples
