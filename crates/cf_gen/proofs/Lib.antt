pub mod Steps
mod WorkloadExamples
pub mod ShortSources
