pub mod Body
pub mod Items
pub mod Put
