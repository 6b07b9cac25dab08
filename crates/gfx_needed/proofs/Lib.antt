pub mod Listed
pub mod Grounds
pub mod Marking
pub mod Naming
pub mod Trackers
pub mod Searching
pub mod Walking
