-- A run: what holds at its start, between two steps, and so at its end.
pub mod Premises
pub mod PromiseLemmas
pub mod RowSiteLemmas
pub mod RunHolds
pub mod RunLemmas
pub mod Running
pub mod SmallSteps
pub mod Starting
