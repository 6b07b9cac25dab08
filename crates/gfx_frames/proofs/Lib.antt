pub mod Hex
pub mod SoFar
pub mod Pieces
pub mod RowLines
pub mod Inside
pub mod Listed
