-- The laws of this crate.
pub mod Fill
pub mod Ranges
pub mod Places
pub mod Shrink
pub mod Residuals
pub mod Energies
pub mod Predict
pub mod Filter
pub mod Coefficients
pub mod InPlace
pub mod Frames
pub mod Stretch
