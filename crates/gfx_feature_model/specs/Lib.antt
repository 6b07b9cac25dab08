pub mod Lean
pub mod Asked
pub mod Listing
