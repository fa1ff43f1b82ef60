pub mod Tables
pub mod Batched
pub mod Scanned
pub mod Chained
pub mod Places
