pub mod Entry
pub mod ThreadBuffer
pub mod Log
pub mod Append
pub mod Pass
