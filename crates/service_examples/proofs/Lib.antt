pub mod DeadNodes
pub mod Listing
