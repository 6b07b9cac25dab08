pub mod Pieces
pub mod Hashing
