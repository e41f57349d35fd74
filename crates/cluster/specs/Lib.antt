pub mod OverBench
pub mod Steps
pub mod Kept
pub mod Casting
pub mod Turned
pub mod Went
pub mod Begun
pub mod Fetching
