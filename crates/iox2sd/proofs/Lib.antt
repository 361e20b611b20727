pub mod Names
pub mod Steps
pub mod Listings
pub mod Counting
pub mod Keeping
pub mod Lending
