-- Lemmas that several proofs share, by topic.
pub mod Lists
pub mod Runs
