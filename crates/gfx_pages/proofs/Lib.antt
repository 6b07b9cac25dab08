pub mod Fills
pub mod Lists
pub mod Paged
pub mod Refilled
pub mod Repeated
pub mod Scans
pub mod Sized
