pub mod ChunkLaws
pub mod ReadLaws
pub mod ResizeLaws
