pub mod AccountLines
pub mod Schedule
pub mod TermsWords
pub mod Words
