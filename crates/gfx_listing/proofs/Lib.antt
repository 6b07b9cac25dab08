pub mod Lines
pub mod Heads
pub mod Cuts
pub mod Parts
pub mod Dispatch
pub mod HeadReading
