pub mod Copies
pub mod Gapless
