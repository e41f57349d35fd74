pub mod Lying
pub mod Replicas
pub mod Passed
