-- Definitions that only models and private functions use.
pub mod Count
pub mod LentTables
pub mod NextEnd
pub mod Position
pub mod Scan
