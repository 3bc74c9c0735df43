-- The laws that the proofs cite.
pub mod Records
pub mod Writes
pub mod Reading
pub mod Writing
