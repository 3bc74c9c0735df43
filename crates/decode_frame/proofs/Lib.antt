-- The laws that other proofs cite.
pub mod Answers
pub mod Finishing
pub mod Heard
pub mod Kept
pub mod Owned
pub mod Noised
pub mod Standard
