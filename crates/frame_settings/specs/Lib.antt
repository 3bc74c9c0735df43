-- The definitions that the contracts cite.
pub mod Changed
pub mod Squelch
pub mod Editions
pub mod Losses
