-- The definitions that the contracts cite.
pub mod Sum
pub mod Put
