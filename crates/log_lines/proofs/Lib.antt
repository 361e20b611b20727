pub mod Found
pub mod Names
pub mod Splits
pub mod States
pub mod OneReading
pub mod OneLine
pub mod Parts
pub mod Forms
