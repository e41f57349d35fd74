pub mod Answers
pub mod Found
pub mod Made
pub mod Ready
pub mod Rows
pub mod Served
pub mod State
