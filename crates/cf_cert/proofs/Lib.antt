pub mod MixLaws
pub mod LastLaws
pub mod ApplyLaws
pub mod CountLaws
pub mod StepLaws
pub mod WayLaws
pub mod FollowLaws
pub mod ArmsLaws
pub mod CertifiedArms
pub mod SpelledLaws
pub mod ApplyExamples
pub mod CertificateExamples
pub mod JudgeLaws
pub mod VerdictLaws
pub mod MarkLaws
mod PutLaws
mod LimitExamples
mod LackExamples
mod CountExamples
