pub mod Publisher
pub mod Sizes
pub mod Numbers
pub mod Result
pub mod Writers
pub mod Items
pub mod LastNumber
