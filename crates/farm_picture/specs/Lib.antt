pub mod Escape
pub mod Painting
