pub mod Put
pub mod Back
pub mod Fitting
pub mod ProbeBack
pub mod ProbeFitting
pub mod Envelopes
