-- ---- the answers before each frame
mod Begun
mod OneFrame
mod Valid
-- ---- the bytes that a frame shows
mod RowBytes
mod MemoryBytes
pub mod Shows
-- ---- the file
mod Writable
mod Counting
pub mod Kept
pub mod Meaning
mod Putting
