pub mod Length
pub mod Numbered
pub mod Missing
pub mod Cutting
pub mod Recorded
