pub mod Cutters
pub mod Faults
pub mod Keeps
pub mod Marks
pub mod Numbers
pub mod Phases
pub mod Trims
pub mod Written
