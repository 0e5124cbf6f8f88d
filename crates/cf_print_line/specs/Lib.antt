pub mod Layout
pub mod Heads
pub mod Called
pub mod Patterns
