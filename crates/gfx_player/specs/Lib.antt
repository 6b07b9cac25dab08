pub mod Asked
pub mod Ends
pub mod Faults
pub mod Fed
pub mod Laws
pub mod Meanings
pub mod Walks
