pub mod Loops
pub mod Choosing
