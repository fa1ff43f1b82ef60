pub mod Checking
pub mod Doubts
