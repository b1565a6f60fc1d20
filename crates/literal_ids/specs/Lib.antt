pub mod Bits
pub mod Clones
pub mod Identifier
pub mod Iteration
