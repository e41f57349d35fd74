pub mod Rebuilt
pub mod Ends
pub mod Served
pub mod Real
