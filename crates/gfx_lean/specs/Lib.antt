pub mod Leaner
pub mod Leans
pub mod Reading
pub mod Written
