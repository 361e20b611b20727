-- Promises: what opening a service, joining it, attaching a publisher, listing who is attached and
-- removing dead nodes do, and what a refused call leaves.
pub mod Described
pub mod Opening
pub mod Joining
pub mod Publishing
pub mod Members
pub mod Removal
pub mod Unchanged
