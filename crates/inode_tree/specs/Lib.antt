pub mod Changes
pub mod Entries
pub mod Handles
pub mod Kept
pub mod Planned
pub mod Sound
pub mod Tables
pub mod Whole
