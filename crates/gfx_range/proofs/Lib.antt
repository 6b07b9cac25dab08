pub mod Following
pub mod Near
pub mod Gathering
