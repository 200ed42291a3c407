pub mod Message
pub mod Writer
pub mod Rewrite
