pub mod Acting
pub mod Tracing
pub mod Laws
pub mod Proving
