pub mod BelowLaws
pub mod ErrorLaws
pub mod FoundLaws
pub mod NameLaws
pub mod RowLaws
pub mod StateLaws
