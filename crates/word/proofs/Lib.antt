-- The laws that the proofs of all crates cite.
pub mod Ring
pub mod Mod
pub mod Range
pub mod Words
pub mod Order
pub mod Parts
pub mod Sizes
pub mod Lists
pub mod Totals
pub mod Fits
pub mod Names
pub mod Rows
pub mod Each
