pub mod CountChanges
pub mod NameRows
