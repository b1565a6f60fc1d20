pub mod Arrays
pub mod ErrorText
pub mod Inside
pub mod Links
pub mod Patterns
pub mod States
pub mod Table
pub mod Words
