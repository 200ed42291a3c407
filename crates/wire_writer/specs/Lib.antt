pub mod Store
pub mod Writing
pub mod Fits
