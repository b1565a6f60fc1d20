-- Definitions that only models and private functions use.
pub mod WholeWords
