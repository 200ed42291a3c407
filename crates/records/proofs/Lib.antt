pub mod Storing
pub mod Asked
pub mod ReadBack
pub mod ConfigBack
pub mod ConfigFits
pub mod Fitting
pub mod NumberStoring
