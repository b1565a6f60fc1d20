-- Lemmas that several proofs share, by topic.
pub mod BackTables
pub mod Backward
pub mod ByteMatches
pub mod Cursor
pub mod Gaps
pub mod GreedyIn
pub mod Iterations
pub mod Leftmost
pub mod Passes
pub mod Prepared
pub mod ScanIn
pub mod SoFar
pub mod Trail
pub mod TrailInFour
pub mod Unmarked
