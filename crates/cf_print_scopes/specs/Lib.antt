pub mod Scopes
pub mod Files
