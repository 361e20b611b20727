-- Promises: what each export answers, and what the caller's memory holds then.
pub mod Attributes
pub mod Descriptions
pub mod Messages
pub mod Paths
pub mod Refusals
pub mod Satisfies
pub mod Settings
pub mod Texts
pub mod Laws
-- Inner facts: the names that these files share.
pub mod Prelude
