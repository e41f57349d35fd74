pub mod Bytes
pub mod Changes
pub mod Size
pub mod Tree
