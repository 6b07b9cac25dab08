pub mod Options
pub mod Saying
pub mod Writing
