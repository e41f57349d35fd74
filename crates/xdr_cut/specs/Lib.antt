pub mod Cut
pub mod Needs
pub mod Fields
