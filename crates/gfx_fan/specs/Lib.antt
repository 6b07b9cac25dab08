pub mod Decoded
pub mod Gathered
pub mod Groups
pub mod Hashing
pub mod Kept
pub mod Walked
