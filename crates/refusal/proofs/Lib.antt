-- The laws that other crates cite.
pub mod Clear
pub mod Earliest
