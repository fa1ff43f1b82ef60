pub mod Adding
pub mod Parting
pub mod Lives
pub mod Numbered
pub mod Splits
pub mod Passed
