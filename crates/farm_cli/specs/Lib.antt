pub mod Ending
pub mod Output
pub mod Replay
pub mod Sites
pub mod Skipped
