pub mod Fresh
pub mod Crossing
pub mod Added
