pub mod Acquired
pub mod Signals
