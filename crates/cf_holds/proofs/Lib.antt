pub mod NumberLaws
pub mod TruthLaws
mod Examples
