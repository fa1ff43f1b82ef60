pub mod Escapes
pub mod Figures
pub mod Health
pub mod Replies
pub mod Tokens
pub mod Neighbours
pub mod Lately
