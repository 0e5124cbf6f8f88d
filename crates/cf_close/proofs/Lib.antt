mod Examples
pub mod FactLemmas
pub mod NodeLemmas
pub mod BranchLemmas
pub mod RefutationLemmas
pub mod DefineLemmas
