pub mod Bytes
pub mod Call
pub mod Counts
pub mod Handle
pub mod Names
pub mod Sizes
pub mod Times
