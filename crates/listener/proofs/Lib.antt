-- The laws that the proofs cite.
pub mod Counting
pub mod Mapping
