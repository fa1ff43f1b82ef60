mod Sharing
pub mod Costs
pub mod Faults
pub mod Grants
