pub mod Acts
pub mod Bounds
pub mod Cases
pub mod Eliminated
pub mod Ends
pub mod Laws
pub mod Returning
pub mod Stages
