-- Lemmas that several proofs share, by topic.
pub mod Bits
pub mod Callers
pub mod Counting
