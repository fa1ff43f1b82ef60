pub mod Form
pub mod Parts
pub mod TermsParts
pub mod SessionParts
pub mod Row
pub mod About
