pub mod Feeding
pub mod Judging
pub mod Meaning
pub mod Stopping
pub mod Walking
-- ---- for callers: the frames that are asked for
pub mod Asking
pub mod Later
pub mod Playing
pub mod ToldBytes
