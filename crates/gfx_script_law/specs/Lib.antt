pub mod Playable
pub mod Presents
