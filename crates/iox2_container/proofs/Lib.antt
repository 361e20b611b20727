mod Walks
pub mod Prelude
pub mod Lists
pub mod CellEntries
pub mod Keeping
pub mod Passes
pub mod Counting
pub mod FreeList
pub mod Callable
pub mod Mapped
pub mod SameEntries
pub mod Histories
pub mod SameContents
pub mod Sending
