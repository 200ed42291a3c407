pub mod Accepted
pub mod CutLaws
pub mod ReadBack
pub mod Sums
