pub mod Changes
pub mod Placed
pub mod Stored
pub mod Tables
pub mod Walks
