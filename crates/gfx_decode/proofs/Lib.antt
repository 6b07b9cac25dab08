pub mod Buffer
pub mod Finding
pub mod Front
pub mod Steps
-- ---- for callers: what is told, and the place of a decoder
pub mod Told
pub mod Ahead
