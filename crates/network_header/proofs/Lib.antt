pub mod Sizes
pub mod FlagsTrip
pub mod FlagsBack
pub mod Kept
pub mod HeaderTrip
pub mod GroupTrip
pub mod Fitting
