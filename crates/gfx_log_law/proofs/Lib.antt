pub mod Lengths
pub mod Files
