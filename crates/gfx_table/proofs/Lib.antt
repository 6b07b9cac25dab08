mod Bits
mod Joining
mod Marking
mod Leasts
mod Densing
mod Placing
mod Grouping
mod Places
mod Slotting
mod Counting
mod Spreading
pub mod Sorting
mod Storing
