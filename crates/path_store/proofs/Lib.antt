mod AddLaws
mod AmongLaws
mod BelowLaws
mod CallLaws
mod CaseLaws
mod DirRows
mod KeyMoves
mod MoveLaws
pub mod NameLaws
pub mod OrderLaws
mod PlacedLaws
mod ReadyLaws
mod RemoveLaws
pub mod Rows
mod SeekLaws
mod SlashLaws
pub mod TableLaws
mod WalkLaws
