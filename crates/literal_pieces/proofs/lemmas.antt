-- Lemmas that several proofs share, by topic.
pub mod OverlappingStreamed
pub mod OverlappingStreams
pub mod Rewritten
pub mod RewrittenBy
pub mod Sought
pub mod StreamCounts
pub mod Streams
