pub mod Answers
pub mod Depth
pub mod Read
pub mod Settings
pub mod Unknown
pub mod Values
pub mod Write
