-- The laws of this crate.
pub mod Digits
pub mod Texts
pub mod Apart
