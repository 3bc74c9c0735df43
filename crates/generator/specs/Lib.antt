-- The definitions that the contracts cite.
pub mod Draws
pub mod Scaled
pub mod Leaps
pub mod Claims
