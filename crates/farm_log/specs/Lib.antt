pub mod Limits
pub mod Logfmt
pub mod Places
