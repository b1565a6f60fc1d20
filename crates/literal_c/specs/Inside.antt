-- Definitions that only private functions use.
pub mod Given
pub mod Info
pub mod Refusal
pub mod Resumed
pub mod SoFar
