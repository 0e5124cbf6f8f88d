pub mod Masks
pub mod Pieces
pub mod Columns
pub mod Laws
pub mod Codes
pub mod Forms
pub mod Lets
pub mod Relations
