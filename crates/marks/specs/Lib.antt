pub mod Marks
pub mod Offsets
pub mod Layouts
