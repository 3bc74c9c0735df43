-- The laws that the proofs cite.
pub mod Sizes
pub mod Told
pub mod Ends
pub mod Played
