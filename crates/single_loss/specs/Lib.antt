-- The definitions that the contracts cite.
pub mod Answer
pub mod Claims
