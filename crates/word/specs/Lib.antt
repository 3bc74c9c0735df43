-- The definitions that the contracts cite.
pub mod Int
pub mod Size
pub mod Tabulate
pub mod Row
