pub mod Comparing
pub mod UnderWay
