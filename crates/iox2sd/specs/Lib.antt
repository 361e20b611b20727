-- Promises: what each export answers, and what the caller's memory holds then.
pub mod About
pub mod Ports
pub mod Answers
pub mod Objects
pub mod Services
pub mod Changes
pub mod DeadNodes
pub mod Queries
pub mod Listings
pub mod Scripts
pub mod Verdicts
-- Inner facts: the names that these files share, and what a slot owns.
pub mod Prelude
pub mod Slots
pub mod Lending
