pub mod Dictionary
pub mod Reading
pub mod Values
