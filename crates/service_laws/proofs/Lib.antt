pub mod Orderly
pub mod Wordy
pub mod Bounds
pub mod Reading
pub mod Spelled
pub mod Served
pub mod SmallRuns
pub mod Fits
