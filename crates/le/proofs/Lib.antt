-- The laws that the proofs cite, here and in other crates.
pub mod Numbers
pub mod Places
pub mod Packing
pub mod Joining
