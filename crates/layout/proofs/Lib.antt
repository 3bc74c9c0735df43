-- The laws that the proofs share.
pub mod Pieces
pub mod Stored
pub mod Frames
pub mod Slices
