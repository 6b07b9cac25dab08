pub mod Lawful
pub mod Newest
pub mod Laws
