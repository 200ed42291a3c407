pub mod Datagram
pub mod Cutting
pub mod Payload
