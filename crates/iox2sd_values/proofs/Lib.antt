pub mod Compared
pub mod Legal
pub mod Sets
mod Prelude
