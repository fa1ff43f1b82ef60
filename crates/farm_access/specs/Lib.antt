pub mod Prefixes
pub mod Strictness
pub mod Rules
pub mod Spelling
