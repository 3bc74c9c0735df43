-- The definitions that the contracts cite.
pub mod Glue
pub mod Answer
