pub mod Distances
pub mod Nearest
pub mod ReadBack
pub mod Reading
pub mod Rowed
pub mod Written
pub mod WrittenTables
