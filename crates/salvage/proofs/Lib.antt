pub mod Told
pub mod HoleLaws
pub mod Tiling
pub mod Steps
pub mod FieldEnds
