pub mod ClaimLaws
mod CutLaws
pub mod DeepLaws
pub mod Forest
pub mod Pieces
mod RaiseLaws
pub mod Sizes
pub mod Steps
pub mod Sums
pub mod Tight
pub mod Trees
pub mod TreeUses
pub mod Words
