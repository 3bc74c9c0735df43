-- The definitions that the contracts cite.
pub mod WholeFrame
pub mod Call
pub mod Answer
pub mod Standard
