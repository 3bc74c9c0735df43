-- The laws of this crate.
pub mod Samples
pub mod Standard
