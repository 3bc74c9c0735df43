-- Claims for a program that links the library: their proofs.
pub mod Calls
pub mod Lists
pub mod Announced
