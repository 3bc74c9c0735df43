-- The laws that other crates cite.
pub mod Editions
