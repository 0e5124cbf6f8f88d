pub mod Lines
pub mod Quotients
pub mod Terms
pub mod Comparisons
pub mod Bounds
pub mod Joined
pub mod Simple
