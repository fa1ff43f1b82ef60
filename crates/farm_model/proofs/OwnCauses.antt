-- The clause on error answers: each has a cause of its own.
pub mod Refusing
pub mod Spending
