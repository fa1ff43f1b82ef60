-- The clauses on how nodes are set up, and on what a run begins with.
pub mod FrontsStand
pub mod KeepingSetUp
pub mod PeersAndRoutes
