pub mod Kept
pub mod Position
pub mod Reading
pub mod Written
