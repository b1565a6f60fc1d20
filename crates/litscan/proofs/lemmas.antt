-- Lemmas that several proofs share, by topic.
pub mod Asked
pub mod Groups
pub mod Lines
pub mod Long
pub mod Marks
pub mod Near
pub mod Others
pub mod Over
pub mod Passing
pub mod Printing
pub mod Reading
pub mod Refused
pub mod Request
pub mod Vectors
pub mod Whole
pub mod Zero
