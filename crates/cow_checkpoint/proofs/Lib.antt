pub mod Found
pub mod Saving
pub mod Holding
pub mod Texts
pub mod Model
