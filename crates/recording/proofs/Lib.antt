-- The laws that the proofs cite, here and in other crates.
pub mod Rows
pub mod Back
pub mod Answers
pub mod Accepted
