pub mod Terms
pub mod Difference
pub mod Stance
pub mod Words
