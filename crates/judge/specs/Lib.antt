-- The definitions that the contracts cite.
pub mod Taps
pub mod Rows
