pub mod Failures
pub mod Newest
pub mod Record
pub mod Segments
