-- Definitions that only models and private functions use.
pub mod Backward
pub mod Cursor
pub mod Leftmost
pub mod Near
pub mod Prepared
pub mod Trail
