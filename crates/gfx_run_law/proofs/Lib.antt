pub mod Pieces
pub mod Ids
pub mod Ends
