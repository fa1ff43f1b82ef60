-- The clause on fronts: each does what a front does at what happens to it.
pub mod FrontEvents
pub mod KeepingFronts
