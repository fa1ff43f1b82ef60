pub mod Events
pub mod Nodes
