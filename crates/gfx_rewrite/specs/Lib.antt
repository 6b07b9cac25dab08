pub mod Texts
pub mod Puts
pub mod Held
pub mod Rewrites
