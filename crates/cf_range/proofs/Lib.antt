pub mod AlikeLemmas
pub mod ComparisonLaws
pub mod GivenLaws
pub mod NumberLemmas
pub mod PathLemmas
pub mod PutLaws
pub mod PutTypes
mod RangeExamples
pub mod RangeLaws
pub mod RestLaws
pub mod RisenLaws
pub mod RowLaws
pub mod SetLaws
pub mod SetLists
mod SettledExamples
pub mod SettledLaws
pub mod SettledLists
pub mod SettledTypes
mod SplitExamples
pub mod StandsLaws
mod TidiedExamples
pub mod TidiedLaws
pub mod TidiedLists
pub mod TidiedTypes
