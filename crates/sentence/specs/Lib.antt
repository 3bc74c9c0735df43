-- The definitions that the contracts cite.
pub mod Sentence
pub mod Apart
