pub mod Changes
pub mod Appending
pub mod Bounds
pub mod Said
pub mod Listed
