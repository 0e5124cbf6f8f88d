pub mod Files
pub mod Printed
pub mod EmissionView
