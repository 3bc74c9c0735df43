-- The definitions that the contracts cite.
pub mod Signals
pub mod State
pub mod Ranges
pub mod Settings
pub mod With
pub mod Reshape
pub mod Rows
pub mod Accepted
pub mod Typed
pub mod Outcome
pub mod Answer
pub mod SetUp
pub mod Played
pub mod Claims
