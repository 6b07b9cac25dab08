pub mod Upgraded
pub mod Upgrades
pub mod Laws
