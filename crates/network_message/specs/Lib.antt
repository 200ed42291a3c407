pub mod Payload
pub mod Envelope
pub mod WriterId
pub mod ProbeMessage
pub mod WriterPayload
pub mod Writer
