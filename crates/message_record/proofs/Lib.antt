pub mod Heads
pub mod Back
pub mod Fitting
pub mod Values
pub mod Telling
pub mod NotTold
