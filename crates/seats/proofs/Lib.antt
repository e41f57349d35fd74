pub mod Positions
pub mod Rebuilding
pub mod Served
pub mod Seats
