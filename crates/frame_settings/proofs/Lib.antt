-- The laws that the claims' proofs share.
mod With
mod Squelch
mod Editions
mod Losses
