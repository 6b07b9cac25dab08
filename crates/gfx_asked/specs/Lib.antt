pub mod Bounds
pub mod Ends
pub mod Offsets
pub mod Accesses
pub mod Asked
pub mod Law
