mod Asked
mod OneObject
mod TargetFacts
mod WrittenSizes
