-- Lists: what is among their items, and what becomes of them.
pub mod Agreeing
pub mod Among
pub mod Finding
pub mod ListLemmas
pub mod Numbering
pub mod Placing
pub mod Replacing
