pub mod Journal
pub mod Workers
