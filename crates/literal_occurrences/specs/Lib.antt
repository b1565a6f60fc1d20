pub mod Automaton
pub mod Earliest
pub mod Inside
pub mod Overlapping
pub mod OverlappingMatchesValue
pub mod PreparedOverlapping
pub mod PreparedStates
