-- ---- one worker
pub mod Going
pub mod Batches
pub mod Effects
pub mod LineCalls
pub mod Running
-- ---- its lines and ids
pub mod Threads
pub mod Draws
-- ---- all workers
pub mod Meetings
pub mod Phases
pub mod Walks
-- ---- the closed log
pub mod Counts
pub mod Closing
pub mod Concluding
pub mod Beginning
