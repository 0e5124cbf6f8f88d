pub mod MaskLemmas
pub mod NameLemmas
pub mod PieceLemmas
pub mod SameSets
