-- The laws that the proofs cite.
pub mod Headers
pub mod Records
