pub mod Holding
pub mod Rewriting
