pub mod Changes
pub mod Counted
pub mod Counts
pub mod Seen
