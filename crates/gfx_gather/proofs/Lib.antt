pub mod Ahead
pub mod Short
pub mod Staying
pub mod Playing
