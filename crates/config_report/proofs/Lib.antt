mod AllPorts
pub mod Characters
pub mod Lines
pub mod Pairs
mod Prelude
