pub mod Equality
pub mod PublisherTrip
