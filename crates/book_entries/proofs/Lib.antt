pub mod Pushed
pub mod Placed
