pub mod Facts
pub mod Problems
pub mod Nodes
pub mod Branches
