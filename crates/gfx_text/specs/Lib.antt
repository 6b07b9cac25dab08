pub mod Gives
pub mod Digits
pub mod Fields
pub mod Places
pub mod Renumbered
