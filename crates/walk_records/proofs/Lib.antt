pub mod Records
pub mod Fields
pub mod Messages
pub mod Answers
pub mod Accepted
