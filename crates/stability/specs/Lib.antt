-- The definitions that the contracts cite.
pub mod Stability
pub mod Limit
