pub mod Front
pub mod Sizes
pub mod FlagsTrip
pub mod HeaderTrip
pub mod Fitting
