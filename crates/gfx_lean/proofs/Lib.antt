pub mod Files
pub mod Leaving
pub mod Parts
pub mod Taking
