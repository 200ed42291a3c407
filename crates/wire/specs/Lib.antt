pub mod Constants
pub mod Number
pub mod Answer
pub mod Refusal
pub mod Items
pub mod Optional
pub mod Lists
