pub mod PoolRun
pub mod ServedFarm
pub mod AsFarm
pub mod Batches
pub mod ServedExample
