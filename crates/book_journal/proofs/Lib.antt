pub mod Next
pub mod Rows
pub mod Opened
pub mod Touching
pub mod Elsewhere
pub mod Renewing
pub mod Filled
