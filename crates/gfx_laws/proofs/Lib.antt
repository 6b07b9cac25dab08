-- ---- tools
pub mod Lists
pub mod Cases
pub mod Rising
pub mod Texels
-- ---- valid histories are lawful: what a step needs, and that ready steps keep what is lawful
pub mod Ready
pub mod MoreObjects
pub mod FewerObjects
pub mod LawfulObjects
pub mod LawfulIds
pub mod LawfulLayouts
pub mod LastingChecks
pub mod Staying
pub mod LawfulBuffers
pub mod LawfulStates
pub mod LawfulBytes
pub mod LawfulLimits
pub mod LawfulSteps
-- that the steps of an event without a fault are ready, and have room
pub mod ReadyLists
pub mod NewObjects
pub mod Ends
pub mod Fetches
pub mod Windows
pub mod Commands
pub mod Executions
pub mod Signals
pub mod EventReady
pub mod EventRoom
-- and so after every valid history
pub mod ValidHistories
pub mod Devices
pub mod KeptCommands
pub mod Complete
pub mod FetchedList
pub mod Newest
pub mod EverBound
-- ---- covering is kept: the same steps, and step by step the same answers and bytes
pub mod Covering
pub mod CoverWindows
pub mod CoverBytes
pub mod PlainSteps
pub mod InRange
pub mod SameSteps
pub mod Simulation
pub mod SameFrames
pub mod Ranges
pub mod Itself
pub mod Told
-- ---- for the section: its fills, and what its events need
pub mod Fills
