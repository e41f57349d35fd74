pub mod Defaults
pub mod Files
pub mod Places
