pub mod Ready
pub mod Served
