pub mod Counts
pub mod SystemBuilders
pub mod Holding
pub mod Laws
pub mod Picking
pub mod FirstSystems
