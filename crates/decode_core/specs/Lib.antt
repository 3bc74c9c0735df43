-- The definitions that the contracts cite.
pub mod Core
pub mod Ready
pub mod Answer
pub mod Standard
