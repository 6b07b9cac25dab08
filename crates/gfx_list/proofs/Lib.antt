pub mod ListedBlocks
pub mod Finding
pub mod Placing
pub mod ReadLines
pub mod TakenLines
pub mod Opening
pub mod Flushing
