mod Examples
pub mod InsideLaws
pub mod CoverLaws
