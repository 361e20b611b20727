pub mod Blocks
pub mod Compatible
pub mod Equality
pub mod FileNames
pub mod Rounding
