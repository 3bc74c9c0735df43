-- The definitions that the contracts cite.
pub mod Layout
pub mod Frame
pub mod Lent
