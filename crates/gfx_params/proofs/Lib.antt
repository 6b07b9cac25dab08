pub mod Items
pub mod Skipping
pub mod Texts
pub mod Presented
pub mod Writing
