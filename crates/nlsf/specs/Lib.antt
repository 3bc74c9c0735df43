-- The definitions that the contracts cite.
pub mod Table
pub mod Values
pub mod Lines
pub mod Expand
pub mod Fit
pub mod Filter
