pub mod Lists
pub mod Parties
pub mod Farm
pub mod Counts
pub mod Answers
pub mod Moves
pub mod Invariant
pub mod Tally
