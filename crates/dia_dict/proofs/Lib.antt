pub mod Judging
pub mod Memory
pub mod Naming
pub mod ReadBack
pub mod Texts
pub mod Unlisted
