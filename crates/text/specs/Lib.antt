pub mod Words
pub mod Decimal
pub mod Hex
