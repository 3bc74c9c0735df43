-- The definitions that the contracts cite.
pub mod Hold
pub mod Update
pub mod Conceal
pub mod Answer
