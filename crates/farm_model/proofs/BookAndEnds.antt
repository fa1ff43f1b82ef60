-- The clause on the book and the connections that are made.
pub mod KeepingBookAndEnds
pub mod KeepingStanding
