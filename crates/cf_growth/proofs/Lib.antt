pub mod AfterLaws
pub mod BoundGrowth
pub mod ChooseGrowth
pub mod CleanGrowth
pub mod EndGrowth
pub mod EndLaws
pub mod Examples
pub mod FineLaws
pub mod LetLaws
pub mod MergeGrowth
pub mod MetCodes
pub mod NormLaws
mod OverflowExamples
pub mod OwesLaws
mod NearExamples
mod NearSetExamples
pub mod ParameterLaws
pub mod PickLaws
pub mod ReachLaws
pub mod RegionGrowth
pub mod RunExamples
pub mod SetCodes
pub mod SetGrowth
mod SetNumberExamples
pub mod SetNumbers
pub mod SizeLaws
pub mod StageGrowth
pub mod ThenLaws
pub mod TightLaws
pub mod TraceGrowth
pub mod TrapLaws
