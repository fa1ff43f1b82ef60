pub mod CheckedSite
pub mod FrontProfile
pub mod Lists
pub mod Nodes
pub mod RowSite
