pub mod Histories
pub mod Adding
pub mod Growing
pub mod Comparing
pub mod Truth
pub mod Together
pub mod Each
pub mod Telling
