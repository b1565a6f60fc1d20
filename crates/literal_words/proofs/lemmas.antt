-- Lemmas that several proofs share, by topic.
pub mod Links
pub mod ShorterWords
pub mod WholeWords
pub mod WordText
