pub mod At
pub mod Counted
pub mod Inside
pub mod LookUps
pub mod MatchesValue
pub mod Prepared
pub mod SearchValue
pub mod SoFar
