pub mod EventNames
pub mod Ids
pub mod FieldText
pub mod Names
pub mod Statements
pub mod Scripts
pub mod Runs
