pub mod Apart
pub mod Nodes
pub mod NodeForm
pub mod Lists
pub mod Spelled
pub mod Good
