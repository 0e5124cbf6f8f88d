pub mod AgreeLaws
pub mod AnswerLemmas
pub mod AskedLemmas
pub mod BesideLemmas
mod BlameExamples
mod BlockExamples
pub mod BlockLemmas
mod BranchExamples
pub mod BranchLemmas
pub mod BranchTellLemmas
pub mod CauseLemmas
mod CertificateExamples
pub mod CertificateLemmas
mod CheckExamples
pub mod CheckLemmas
pub mod CheckedLemmas
mod ClaimExamples
pub mod ClaimLemmas
pub mod ClaimedLemmas
mod CommandExamples
pub mod CountLemmas
pub mod CoverageLemmas
mod DoesExamples
mod EmitExamples
pub mod EmitLemmas
mod EndExamples
pub mod EndedLemmas
mod Examples
pub mod FaultLemmas
pub mod FileLemmas
mod FormExamples
pub mod FormedLemmas
pub mod FrontLaws
pub mod HeadLemmas
pub mod HoldingLemmas
mod LateExamples
pub mod LateLemmas
mod LimitExamples
mod LineExamples
pub mod LoweredLemmas
pub mod MatchClassLemmas
mod NameExamples
pub mod NameLemmas
pub mod NamedLemmas
pub mod OriginLemmas
pub mod OutcomeLemmas
mod OutsideExamples
pub mod OutsideLemmas
mod OwedExamples
pub mod OwedLemmas
pub mod PassLemmas
mod PickedExamples
pub mod PickedLemmas
pub mod PieceLemmas
mod PreExamples
pub mod PreLemmas
mod RefusalExamples
mod ReplyExamples
pub mod ReplyLemmas
pub mod RuleLemmas
pub mod RunLemmas
pub mod SampleLemmas
pub mod SayingLemmas
pub mod SourceLemmas
pub mod SpelledLemmas
mod StatusExamples
pub mod StatusLemmas
pub mod StepLemmas
mod SumExamples
pub mod SumLemmas
pub mod TargetLemmas
mod TellExamples
pub mod TellLemmas
mod TextExamples
pub mod TextLemmas
mod ToldExamples
pub mod ToldLemmas
pub mod ToldProgramLemmas
pub mod VerifyLemmas
pub mod WorkloadAccepted
pub mod WorkloadLaw
pub mod WorkloadPicks
pub mod WorkloadShapes
pub mod WorkloadSource
pub mod WorkloadSum
pub mod WorkloadTyped
mod WrittenExamples
pub mod WrittenLemmas
