-- The definitions that the contracts cite.
pub mod Rfc
pub mod Standard
pub mod Excitation
