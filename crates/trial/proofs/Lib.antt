-- The laws that the proofs cite.
pub mod Counts
pub mod Sums
