pub mod FeedLemmas
pub mod FrontLemmas
pub mod LimitLemmas
pub mod LineLemmas
pub mod Owed
pub mod ShelfLemmas
mod LimitExamples
mod LineExamples
mod CountExamples
mod ShelfExamples
