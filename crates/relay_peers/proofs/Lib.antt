pub mod Finding
pub mod Links
