pub mod Files
pub mod SlotBytes
pub mod Slots
pub mod Table
