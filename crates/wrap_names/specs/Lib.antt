pub mod Adds
pub mod Kinds
pub mod Present
pub mod Renames
pub mod RowParents
