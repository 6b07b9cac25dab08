pub mod Reading
pub mod Rows
pub mod Splitting
pub mod Framing
pub mod Reads
pub mod Laws
