pub mod Fill
pub mod Make
pub mod Name
pub mod Rebuild
