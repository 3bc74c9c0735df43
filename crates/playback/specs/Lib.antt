-- The definitions that the contracts cite.
pub mod Playback
pub mod Claims
