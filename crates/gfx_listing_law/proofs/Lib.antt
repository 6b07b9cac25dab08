pub mod ShortLines
pub mod EndedLines
pub mod Readable
