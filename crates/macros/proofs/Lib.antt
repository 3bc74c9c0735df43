-- The laws of this crate.
pub mod Rounding
pub mod Root
pub mod Normal
pub mod Ranges
pub mod Scalars
pub mod Inverse
pub mod Kept
