pub mod Operations
pub mod Regions
pub mod Laws
