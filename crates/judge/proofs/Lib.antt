-- What an accepted call's rows say, as plain bounds.
pub mod Sums
pub mod Bounds
pub mod Alone
