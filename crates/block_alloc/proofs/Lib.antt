mod BitLaws
mod Counts
mod MapLaws
mod PathLaws
mod TreeLaws
