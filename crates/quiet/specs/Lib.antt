-- What the laws cite.
pub mod Bound
pub mod Taps
