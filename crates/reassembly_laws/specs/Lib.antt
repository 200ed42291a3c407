pub mod AnyList
pub mod Combining
pub mod Alone
pub mod Equality
pub mod Refusing
pub mod Cutting
pub mod Layouts
