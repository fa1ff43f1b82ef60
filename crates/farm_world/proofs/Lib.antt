pub mod Losing
pub mod NodeEvents
pub mod Relaying
pub mod Turning
