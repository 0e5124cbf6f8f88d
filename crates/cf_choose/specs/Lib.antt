pub mod CaseArms
pub mod Eliminations
pub mod ArmBuilders
pub mod Precondition
pub mod Solved
pub mod Solving
pub mod Laws
pub mod Fitting
