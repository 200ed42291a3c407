pub mod BitLaws
pub mod CountLaws
pub mod MarkLaws
pub mod OffsetLaws
pub mod LookLaws
pub mod NextLaws
pub mod WholeLaws
