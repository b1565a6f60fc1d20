-- Definitions that only models and private functions use.
pub mod ByteTable
pub mod Confirming
pub mod CountedSet
pub mod Prefilter
pub mod Running
