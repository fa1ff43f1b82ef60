pub mod Tables
pub mod Kept
