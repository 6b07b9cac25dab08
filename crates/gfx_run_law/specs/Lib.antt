pub mod Pieces
pub mod Halted
