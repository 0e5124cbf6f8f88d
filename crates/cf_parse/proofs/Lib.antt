pub mod Depths
pub mod Orders
pub mod Ops
pub mod Steps
pub mod Terms
pub mod Above
pub mod Found
pub mod LocalReading
pub mod Only
pub mod Defs
pub mod Programs
pub mod Examples
pub mod ThreeExamples
pub mod ThreeSpelled
pub mod AtTwo
mod LimitExamples
mod FaultExamples
