-- The laws that the proofs cite.
mod Played
