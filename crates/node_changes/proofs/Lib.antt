pub mod AddLaws
mod AddedRows
mod Alike
mod ByteLaws
pub mod DirNames
pub mod DropFacts
mod DropLaws
mod DropTallies
mod Edits
mod GenerationLaws
mod KindLaws
mod LastNameLaws
pub mod LinkLaws
mod MoveLaws
pub mod MovedArrays
mod NameListLaws
mod NameSets
pub mod NamedCalls
mod NewNodes
mod PairRows
mod ParentRows
mod RoomLaws
pub mod RowsByName
mod SetLaws
mod SetObjects
mod TalliedArrays
mod TallyLaws
mod TimeLaws
mod TreeDrops
mod TwoSet
mod UsedLaws
mod WalkLaws
mod WriteLaws
