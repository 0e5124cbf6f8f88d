pub mod VerdictLaws
pub mod ExistenceLaws
pub mod CoverLaws
mod VerdictExamples
mod ExistenceExamples
mod CoverExamples
pub mod HalvesLaws
pub mod OtherLevels
pub mod ParameterLaws
pub mod TwiceLaws
pub mod SampleLaws
pub mod MissingSteps
pub mod MissingTurns
pub mod CaseNeeds
pub mod MissingColumns
pub mod MissingLaws
pub mod MissingTypes
pub mod SolutionLaws
pub mod TupleCounts
pub mod RegionLaws
pub mod DraftLaws
pub mod QuestionLaws
pub mod ClassLaws
pub mod MatchClasses
pub mod Examples
pub mod MissingExamples
pub mod ClassExamples
mod LimitExamples
mod BoundExamples
