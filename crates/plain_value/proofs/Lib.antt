pub mod Widths
pub mod PartLaws
pub mod Passing
pub mod Sizes
pub mod Steadily
pub mod Lengths
pub mod Entries
