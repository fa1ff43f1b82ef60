-- The clauses on who sends and receives on a connection, and on what the book was charged for.
pub mod Hearing
pub mod HearingSteps
