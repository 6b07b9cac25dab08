pub mod Checks
pub mod Turns
