-- ---- histories: the next frame, the open section, and the numbers of frames
pub mod Clock
pub mod Numbers
-- ---- blocks: where a frame begins, and what its range says
pub mod Cuts
pub mod Boundary
pub mod Prefix
pub mod Range
-- ---- bytes: the blocks of a file, and the trimmed file read again
pub mod Standing
pub mod Bytes
pub mod Reading
pub mod Files
-- ---- the laws
pub mod Keeps
pub mod Follows
pub mod Each
mod Examples
