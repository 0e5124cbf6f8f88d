pub mod Meeting
pub mod Shifted
