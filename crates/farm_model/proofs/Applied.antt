-- The clauses on steps that can apply, and on those that change nothing.
pub mod CanApply
pub mod Skipping
