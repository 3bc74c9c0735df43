-- The laws of this crate.
pub mod Shifts
pub mod Turn
pub mod Glued
