pub mod Positions
pub mod Given
pub mod Spare
pub mod Seats
