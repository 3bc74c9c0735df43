-- Laws of comfort noise.
pub mod Numbers
pub mod Places
pub mod Signals
pub mod Lines
pub mod Cases
pub mod Toward
pub mod Kept
pub mod Filters
