pub mod FaultExample
pub mod Faults
pub mod Forms
pub mod Growing
pub mod Graph
pub mod Keys
pub mod Spelling
