-- The definitions that the contracts cite.
pub mod Tests
pub mod Filters
