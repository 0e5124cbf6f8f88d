pub mod SameLaws
pub mod LineLaws
pub mod QuotientLaws
pub mod TermLaws
pub mod ComparisonLaws
pub mod BoundLaws
pub mod JoinedLaws
pub mod SimpleLaws
mod SimpleExamples
