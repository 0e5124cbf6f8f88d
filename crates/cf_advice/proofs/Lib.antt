pub mod FactorLaws
pub mod BoundLaws
pub mod UnusedLaws
pub mod SpotLaws
mod Examples
mod SpotExamples
mod OrExamples
