pub mod Barring
pub mod Lengths
pub mod Telling
