-- The laws of this crate.
pub mod Parts
pub mod Chirps
pub mod Rounds
pub mod Accepted
pub mod Results
pub mod Lines
pub mod Values
pub mod Polynomials
pub mod Front
