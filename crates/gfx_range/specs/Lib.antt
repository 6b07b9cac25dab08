pub mod Follower
pub mod Range
pub mod Shown
