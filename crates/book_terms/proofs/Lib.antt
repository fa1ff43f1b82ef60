pub mod Exact
pub mod Written
pub mod Leading
pub mod Looking
