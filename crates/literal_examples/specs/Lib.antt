pub mod Confirmed
pub mod Lexed
pub mod Redacted
pub mod Routes
pub mod Tokens
pub mod WordList
