pub mod Booked
pub mod Events
pub mod Figures
pub mod Fronts
pub mod Measure
pub mod Sweeping
pub mod Served
pub mod Refusing
