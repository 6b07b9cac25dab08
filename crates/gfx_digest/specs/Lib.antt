pub mod Images
pub mod Digests
