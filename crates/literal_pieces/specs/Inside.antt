-- Definitions that only models and private functions use.
pub mod OverlappingStream
pub mod Rewriting
pub mod Sought
pub mod Stream
