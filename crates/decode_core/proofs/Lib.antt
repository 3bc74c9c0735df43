-- The laws of this crate.
pub mod Pasts
pub mod Whiten
pub mod Short
pub mod Bounds
pub mod Steps
pub mod Plays
pub mod Loop
pub mod Frames
pub mod Accepts
pub mod Kept
pub mod Standard
