-- The laws that the proofs cite, here and in other crates.
pub mod Frames
pub mod Received
pub mod Read
pub mod Answers
pub mod Plays
