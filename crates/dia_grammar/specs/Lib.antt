pub mod Grammar
pub mod Profile
pub mod Request
pub mod RequestExample
