pub mod Width
pub mod Plain
pub mod Parts
pub mod Dimensions
pub mod Quick
