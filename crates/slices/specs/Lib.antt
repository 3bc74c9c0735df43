-- The definitions that the contracts cite.
pub mod Slices
pub mod Whole
