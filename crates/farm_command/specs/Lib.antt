pub mod CommandLine
pub mod Asked
pub mod Ending
pub mod Pieces
