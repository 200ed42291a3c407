pub mod Chunk
pub mod Partial
pub mod List
pub mod Steps
