pub mod Counts
pub mod Asked
pub mod Index
pub mod Steps
pub mod Kept
pub mod Grouped
pub mod Resources
pub mod Owned
pub mod Rising
mod LeastOf
mod Resting
