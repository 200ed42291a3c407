pub mod Lines
pub mod Turns
pub mod Joined
pub mod Long
pub mod Meant
