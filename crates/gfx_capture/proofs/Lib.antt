-- ---- bytes
pub mod Reading
pub mod ThreadBytes
pub mod Buffers
pub mod Written
-- ---- the log
pub mod Logs
pub mod Appending
pub mod Growing
-- ---- the passes
pub mod Places
pub mod NewIds
