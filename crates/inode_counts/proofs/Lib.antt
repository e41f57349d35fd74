pub mod CountLaws
pub mod EditCounts
pub mod LedLaws
pub mod NodeCounts
