pub mod Table
pub mod Batches
pub mod Damage
pub mod Chain
