-- Lemmas that several proofs share, by topic.
pub mod BackTables
pub mod Callers
pub mod NoPattern
pub mod Relabelled
pub mod Replaced
pub mod ReplacedWords
pub mod RewrittenBy
pub mod Texts
