pub mod Words
pub mod Services
pub mod Lines
pub mod Summary
