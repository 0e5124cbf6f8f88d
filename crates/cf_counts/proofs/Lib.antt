pub mod BaseLaws
pub mod CountLaws
mod Examples
