pub mod Rule
pub mod Jobs
pub mod Refused
pub mod Serving
pub mod Comparing
pub mod Charges
pub mod Passing
