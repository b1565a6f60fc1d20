-- Definitions that only models and private functions use.
pub mod Asked
pub mod Groups
pub mod Passed
