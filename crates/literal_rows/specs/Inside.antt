-- Definitions that only models and private functions use.
pub mod Arrays
pub mod Classes
pub mod Construction
pub mod Grown
pub mod Kept
pub mod Lists
pub mod Packed
pub mod Prefixes
pub mod Rows
pub mod Shadowed
pub mod Suffixes
pub mod Walk
