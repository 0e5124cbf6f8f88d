pub mod Blocks
pub mod Spelling
pub mod Reading
pub mod Answers
pub mod Spelled
pub mod Printed
pub mod ReadsBack
pub mod Laws
