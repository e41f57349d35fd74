pub mod EmptyArray
pub mod Told
pub mod Refreshed
pub mod Overs
pub mod Answering
