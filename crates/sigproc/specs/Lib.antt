-- The definitions that the contracts cite.
pub mod Place
pub mod Expand
pub mod Analysis
pub mod Energy
pub mod Synthesis
