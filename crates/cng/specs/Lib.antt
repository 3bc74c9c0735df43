-- The definitions that the contracts cite.
pub mod Noise
pub mod Answer
pub mod Announced
