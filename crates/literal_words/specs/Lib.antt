pub mod Inside
pub mod PreparedWords
pub mod WholeWords
pub mod WordText
