-- The laws that the proofs cite, here and in other crates.
pub mod Chains
pub mod Steps
pub mod Records
