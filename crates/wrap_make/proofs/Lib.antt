mod GivenSizes
mod Makings
mod NextGenerations
mod OldFiles
mod Refusals
mod Spots
