-- The definitions that the contracts cite.
pub mod Shape
pub mod Order
