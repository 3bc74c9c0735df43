-- The laws of this crate.
pub mod Numbers
pub mod Noise
pub mod Tap
pub mod Updated
pub mod Gain
pub mod Rewhiten
pub mod Excite
pub mod Pitch
pub mod Synthesis
pub mod Ready
pub mod Fading
pub mod Drift
pub mod Types
pub mod Concealed
