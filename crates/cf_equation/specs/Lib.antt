pub mod Ending
pub mod Equations
pub mod Merging
pub mod Unknowns
