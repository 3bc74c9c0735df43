-- The definitions that the contracts cite.
pub mod Fixed
pub mod Quotient
