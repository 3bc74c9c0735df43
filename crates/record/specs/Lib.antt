-- The definitions that the contracts cite.
pub mod Record
pub mod Recorded
pub mod Claims
