pub mod BezoutLemmas
pub mod DivisionLemmas
pub mod DivisorLemmas
pub mod EuclidLemmas
mod Examples
pub mod Orders
pub mod Ring
pub mod SignLemmas
