-- The definitions that the contracts cite.
pub mod Wav
pub mod Header
pub mod Records
