-- The definitions that the contracts cite.
pub mod Chain
pub mod Claims
