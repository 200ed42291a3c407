pub mod Line
pub mod Config
pub mod Meaning
