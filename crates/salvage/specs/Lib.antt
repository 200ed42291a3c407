pub mod Holes
pub mod Tiles
pub mod Front
pub mod Quick
pub mod Whole
