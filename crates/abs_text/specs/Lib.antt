pub mod Text
pub mod Wordy
pub mod Lengths
pub mod Forms
pub mod Reading
pub mod Spelled
pub mod Node
