pub mod Lists
pub mod Parts
pub mod Digits
pub mod Numerals
pub mod Putting
pub mod Back
