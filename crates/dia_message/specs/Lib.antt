pub mod Header
pub mod Spelling
pub mod Stream
pub mod Feeding
pub mod MessageExample
pub mod Traffic
