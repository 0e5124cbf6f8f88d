pub mod NumberedLaws
pub mod FilterExamples
pub mod OpeningExamples
