pub mod Keys
pub mod MountLaws
pub mod NameTurns
pub mod NodeTurns
pub mod Parts
pub mod Walks
