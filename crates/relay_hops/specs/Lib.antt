pub mod PendingTable
pub mod Identifiers
pub mod PlaceTable
pub mod IdentifierExample
