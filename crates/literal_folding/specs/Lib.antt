pub mod FoldedSearchValue
pub mod Folding
pub mod Inside
pub mod Replaced
