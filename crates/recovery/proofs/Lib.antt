pub mod Fetching
pub mod Standing
pub mod Counted
pub mod Put
pub mod HeldItems
