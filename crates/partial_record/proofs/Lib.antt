pub mod Asked
pub mod Parts
pub mod Taken
pub mod Back
pub mod Fitting
pub mod Entries
pub mod Saving
