pub mod Flags
pub mod Header
