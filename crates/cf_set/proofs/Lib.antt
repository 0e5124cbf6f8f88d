pub mod FreshLemmas
pub mod MergeLemmas
pub mod Merging
pub mod SearchLemmas
pub mod SortLemmas
