pub mod Client
pub mod Lines
