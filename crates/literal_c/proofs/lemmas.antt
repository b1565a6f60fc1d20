-- Lemmas by topic. Each file says what it is about and for which functions.
pub mod Info
pub mod Pages
pub mod Pieces
pub mod Resumed
pub mod SoFar
pub mod Statuses
pub mod Words
