-- What contracts of this crate promise to others
pub mod State
pub mod Steps
pub mod Histories
pub mod Calls
pub mod ServiceNumbers
-- Inner facts, which no other crate needs: slots with a header, passes over them, and the free list
pub mod Cells
pub mod Passes
pub mod FreeList
