pub mod Files
pub mod Held
pub mod Texts
pub use Rattle.cf_io.specs.Causes
pub use Rattle.cf_io.specs.Seen
