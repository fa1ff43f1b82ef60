pub mod Changes
pub mod Errands
pub mod Looks
pub mod Sweeps
