pub mod Publisher
pub mod PublisherRecord
