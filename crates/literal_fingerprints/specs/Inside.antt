-- Definitions that only models and private functions use.
pub mod Buckets
pub mod Hits
pub mod Lanes
pub mod Nibbles
pub mod Scan
