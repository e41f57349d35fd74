pub mod Chunks
pub mod Counting
pub mod Forms
pub mod HeldLaws
pub mod Lists
pub mod Nodes
pub mod Places
pub mod RoomLaws
