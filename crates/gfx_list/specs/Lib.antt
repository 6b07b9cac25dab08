pub mod Lists
pub mod Unlists
pub mod Lines
pub mod Parts
pub mod Laws
