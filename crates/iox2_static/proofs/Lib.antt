pub mod Equality
pub mod Greatest
pub mod HashWrites
pub mod Requirements
