-- Claims for a program that links the library: their statements.
pub mod Linked
pub mod Claims
pub mod Announced
