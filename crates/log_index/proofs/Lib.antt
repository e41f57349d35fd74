pub mod NameAdds
pub mod NameDrops
pub mod NodeAdds
pub mod NodeDrops
pub mod NodeSets
pub mod Ties
