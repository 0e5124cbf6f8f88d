pub mod Forms
pub mod FormView
pub mod Conditions
pub mod Standing
pub mod ConditionLaws
