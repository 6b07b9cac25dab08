pub mod Numbers
pub mod Agree
pub mod Renumbered
pub mod Orders
pub mod Sizes
pub mod Statements
pub mod Playing
pub mod Counting
