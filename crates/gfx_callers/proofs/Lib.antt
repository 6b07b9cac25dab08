pub mod Ready
pub mod Drawn
pub mod Moving
