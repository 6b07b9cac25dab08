pub mod Ids
pub mod Ends
pub mod Work
pub mod Drawn
pub mod Workers
pub mod Progress
pub mod Outcomes
pub mod Begun
