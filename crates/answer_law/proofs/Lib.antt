pub mod Answering
pub mod Events
pub mod Messages
pub mod Refusals
pub mod Repeats
pub mod Results
pub mod Sessions
