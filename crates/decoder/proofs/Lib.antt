-- Laws that other proofs cite.
pub mod Each
pub mod Tests
pub mod Ends
pub mod Held
pub mod Between
pub mod Bounds
pub mod Types
pub mod SetUps
pub mod Built
pub mod Coming
