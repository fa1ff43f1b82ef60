pub mod Seconds
pub mod Requests
pub mod Faults
pub mod Following
pub mod Shapes
