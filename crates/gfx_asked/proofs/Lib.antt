pub mod Changes
pub mod Places
pub mod Stand
pub mod Rows
pub mod Gapless
pub mod Near
