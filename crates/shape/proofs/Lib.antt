-- Laws that other proofs cite.
pub mod Shapes
pub mod Orders
