pub mod Jobs
pub mod Answering
pub mod Moving
pub mod Counting
pub mod Working
pub mod Keeping
pub mod Charging
