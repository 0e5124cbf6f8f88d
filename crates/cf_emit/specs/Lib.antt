pub mod Printed
pub mod ReadsBack
pub mod Between
