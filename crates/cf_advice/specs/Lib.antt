pub mod Bounds
pub mod Factors
pub mod Unused
pub mod Spots
pub mod SpotView
pub mod Ors
pub mod OrView
