-- Lemmas that several proofs share, by topic.
pub mod Blocks
pub mod Chars
pub mod Refused
pub mod Table
pub mod Texts
