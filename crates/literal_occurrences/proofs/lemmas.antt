-- Lemmas that several proofs share, by topic.
pub mod Automaton
pub mod Count
pub mod LentTables
pub mod NextEnd
pub mod Overlapping
pub mod Position
pub mod PreparedStates
pub mod Pushed
pub mod Scan
