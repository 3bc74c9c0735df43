-- The laws that the claims' proofs share.
pub mod Tests
pub mod Filters
mod Stable
