pub mod Agreement
pub mod Fronts
pub mod Whole
