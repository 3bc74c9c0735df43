-- The laws that the proofs cite.
pub mod Writing
pub mod Drawn
