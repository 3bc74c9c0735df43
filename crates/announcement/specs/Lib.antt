-- The definitions that the contracts cite.
pub mod Cosine
pub mod Rising
pub mod Claims
