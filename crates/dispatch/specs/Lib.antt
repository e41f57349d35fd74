pub mod Answer
pub mod Spelled
pub mod Steps
