mod Expected
mod Wordy
mod Changed
pub mod Serving
pub mod Made
pub mod Decided
