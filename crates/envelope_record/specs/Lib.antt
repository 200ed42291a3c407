pub mod Envelope
pub mod Probe
