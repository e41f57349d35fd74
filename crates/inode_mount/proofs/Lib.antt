mod Claimed
pub mod UsedLaws
pub mod SoundLaws
mod CutLaws
mod EnteredLaws
mod NamedLaws
mod ReadLaws
