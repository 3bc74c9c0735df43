-- The laws that the proofs cite.
pub mod Joining
pub mod Scales
