pub mod Value
pub mod Head
pub mod Quick
