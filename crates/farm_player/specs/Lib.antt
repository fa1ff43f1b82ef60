pub mod Awaiting
pub mod ChangeWords
pub mod Counting
pub mod Passing
pub mod PlayedRun
pub mod Reconciling
pub mod StepLines
