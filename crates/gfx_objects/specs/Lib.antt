pub mod Object
pub mod Children
pub mod Objects
pub mod Inside
pub mod Least
