pub mod Taken
pub mod WriteSteps
pub mod RecordSteps
pub mod Lengths
