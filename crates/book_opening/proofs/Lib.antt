pub mod Stored
pub mod UnderTerms
