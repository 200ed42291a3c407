pub mod Heads
pub mod FirstItems
pub mod FirstByte
pub mod Runs
pub mod Values
pub mod Looks
pub mod SizeTable
