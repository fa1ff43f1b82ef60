pub mod AvpExample
pub mod AvpHead
pub mod AvpList
pub mod AvpReading
pub mod KeptOctets
pub mod LentAvp
