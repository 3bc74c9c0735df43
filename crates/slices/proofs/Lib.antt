-- The laws that other proofs cite.
pub mod Ends
