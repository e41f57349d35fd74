pub mod ByteLaws
pub mod ChangeLaws
mod FormatLaws
pub mod HeldLaws
mod InodeWords
pub mod OpLaws
pub mod ResizeLaws
pub mod RoomLaws
mod WriteLaws
