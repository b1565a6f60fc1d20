-- Definitions that only models and private functions use.
pub mod Builder
pub mod Entries
pub mod Longest
pub mod Patterns
pub mod Place
pub mod Rolling
