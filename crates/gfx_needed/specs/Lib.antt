pub mod Fields
pub mod Grounds
pub mod NeededIds
