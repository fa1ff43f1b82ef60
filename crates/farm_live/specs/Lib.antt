pub mod Naming
pub mod Serving
