mod OverwriteLaws
pub mod ChangeLaws
