-- The laws of this crate.
pub mod Sums
pub mod Steps
pub mod Ends
pub mod Turns
pub mod Gains
pub mod Limits
