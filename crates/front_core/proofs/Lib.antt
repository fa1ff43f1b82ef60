pub mod Charges
pub mod Emitting
pub mod FrontKeeping
pub mod FrontPromise
pub mod FrontRuns
pub mod FrontTally
pub mod Standing
