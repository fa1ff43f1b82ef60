pub mod Ending
pub mod Told
