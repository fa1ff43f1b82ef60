pub mod PeerExample
pub mod PeerTable
