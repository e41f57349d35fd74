pub mod Files
pub mod Held
pub mod Inodes
pub mod Keeps
pub mod Kinds
pub mod Layout
pub mod Store
pub mod Written
