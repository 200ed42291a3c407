pub mod Told
pub mod Name
pub mod DataValue
pub mod Put
pub mod PutName
pub mod PutMatrix
