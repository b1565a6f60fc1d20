pub mod Device
pub mod FaultText
pub mod Inside
pub mod Lines
pub mod Query
pub mod Run
pub mod Status
