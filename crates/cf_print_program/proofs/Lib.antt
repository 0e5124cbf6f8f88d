pub mod PrintLaws
pub mod PrintedExamples
pub mod FileExamples
