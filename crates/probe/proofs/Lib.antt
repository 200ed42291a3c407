pub mod Fitting
pub mod Steadily
pub mod Trip
