-- Lemmas that several proofs share, by topic.
pub mod Callers
pub mod ClassIterations
pub mod Exists
pub mod GreedyLists
pub mod LentParts
pub mod Marks
pub mod Met
pub mod Runs
pub mod Stride
pub mod Tested
pub mod Ties
pub mod Unique
