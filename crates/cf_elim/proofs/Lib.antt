pub mod BoundLaws
pub mod CaseLaws
pub mod EndLaws
pub mod ReturnLaws
pub mod RunLaws
pub mod SearchLaws
pub mod StageLaws
pub mod StepReturns
pub mod TupleLaws
pub mod NextStageLaws
pub mod StageOwes
pub mod StageEnds
pub mod SolvedRuns
pub mod StageCounts
pub mod RunCounts
pub mod SmallRows
pub mod StageSmall
pub mod RunSmall
pub mod ActLaws
mod ActExamples
mod CountExamples
