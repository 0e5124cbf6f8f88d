pub mod Shapes
pub mod Sets
pub mod Nones
pub mod Wishes
