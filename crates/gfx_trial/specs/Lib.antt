pub mod Files
pub mod Text
