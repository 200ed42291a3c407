pub mod Newness
