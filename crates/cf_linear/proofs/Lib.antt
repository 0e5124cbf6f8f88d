pub mod ArmExamples
pub mod BoolLemmas
pub mod Canonical
pub mod CaseExamples
pub mod ColumnLemmas
pub mod CombLemmas
pub mod Examples
pub mod FormedLemmas
pub mod Joining
pub mod KindLemmas
mod LimitExamples
pub mod MapLemmas
pub mod MergingLemmas
pub mod PassingLemmas
mod ReasonExamples
pub mod RefusalExamples
pub mod RowLemmas
pub mod RowTests
pub mod SetExamples
pub mod SolvedLemmas
pub mod StageLemmas
pub mod SubstituteLemmas
pub mod ValueLemmas
pub mod WrittenLemmas
pub mod WritingLemmas
pub mod PartColumns
pub mod EquationLaws
pub mod FactorValues
pub mod PartLemmas
pub mod SideLemmas
pub mod UnknownLemmas
mod LastExamples
