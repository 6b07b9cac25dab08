pub mod Journals
pub mod Ready
