pub mod AnswerLaws
pub mod CountingLaws
pub mod TryingLaws
pub mod WitnessLaws
mod Examples
