mod Climbing
pub mod Ends
mod ListedFacts
mod MarkFacts
mod Orderly
mod Rising
