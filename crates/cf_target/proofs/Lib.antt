pub mod Above
pub mod Loops
pub mod VariableSteps
pub mod LevelLaws
pub mod LocalReading
pub mod FoundWords
pub mod FoundCodes
pub mod Targets
pub mod Spelled
pub mod OnlyCodes
pub mod OnlyArms
pub mod Only
pub mod Examples
mod LimitExamples
