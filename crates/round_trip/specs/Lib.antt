pub mod DataSetMessage
pub mod NetworkMessage
