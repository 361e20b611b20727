pub mod Written
pub mod Fronts
pub mod Phrases
pub mod Indices
