-- The definitions that the contracts cite.
pub mod Link
pub mod Heard
