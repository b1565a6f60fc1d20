-- Definitions that only models and private functions use.
pub mod Overlapping
pub mod OwnedWords
pub mod Search
