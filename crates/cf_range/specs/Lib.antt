pub mod Alike
pub mod CodeRanges
pub mod Put
pub mod RangeLaws
pub mod Ranges
pub mod Settled
pub mod Tidied
pub mod Total
