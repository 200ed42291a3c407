pub mod Tallies
pub mod Messages
pub mod Accepted
pub mod Sizes
pub mod Short
pub mod Lent
