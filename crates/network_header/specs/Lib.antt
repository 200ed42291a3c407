pub mod Flags
pub mod Group
pub mod Header
pub mod Numbers
pub mod Envelope
