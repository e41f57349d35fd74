pub mod Changes
pub mod Memory
