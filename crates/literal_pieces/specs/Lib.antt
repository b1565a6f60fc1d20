pub mod ErrorText
pub mod Inside
pub mod OverlappingStream
pub mod Replaced
pub mod ReplacedStream
pub mod Stream
