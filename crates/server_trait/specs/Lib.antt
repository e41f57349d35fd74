pub mod Calls
pub mod Step
pub mod Sums
pub mod Tree
