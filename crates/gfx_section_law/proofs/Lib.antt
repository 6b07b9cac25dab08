-- ---- what a history left, cut down to what exists already, and events that lead from one cut to the next
pub mod Picks
pub mod Builds
pub mod Shown
pub mod Ranks
pub mod Objects
-- ---- the blocks of one object make it anew
pub mod Plain
pub mod Bound
pub mod Spans
pub mod Memory
pub mod Parts
pub mod Images
pub mod Many
pub mod SwapchainFetch
pub mod SwapchainMarks
pub mod SwapchainImages
pub mod Swapchain
pub mod Commands
pub mod PoolBuffers
pub mod PoolDevices
pub mod Recording
pub mod Pool
-- ---- the objects of a kind, the kinds in order, and the whole section
pub mod Stages
pub mod Whole
pub mod OrderlyHistories
-- ---- it is short, builds nothing else, and has a spelling
pub mod Sizes
pub mod BlockSizes
pub mod Sums
pub mod Counts
pub mod Shape
pub mod Spelled
pub mod SpelledRows
pub mod SpelledSection
-- ---- the laws
pub mod SectionLaws
mod Examples
