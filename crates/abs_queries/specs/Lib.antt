pub mod Listable
pub mod Marks
pub mod Refused
