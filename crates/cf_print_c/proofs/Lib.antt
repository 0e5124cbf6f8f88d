pub mod ReplyLaws
pub mod FilterExamples
pub mod OpeningExamples
