pub mod Walks
pub mod Alike
pub mod Front
pub mod Judging
pub mod Laying
pub mod FieldsTrip
pub mod Inside
