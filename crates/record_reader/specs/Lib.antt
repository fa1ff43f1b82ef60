pub mod NextEvent
pub mod Reading
pub mod Telling
pub mod WholeLines
