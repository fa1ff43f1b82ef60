pub mod Connection
pub mod Device
pub mod Turn
