-- Lemmas that several proofs share, by topic.
pub mod Refused
