pub mod OpeningExamples
