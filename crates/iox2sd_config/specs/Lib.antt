-- Promises: what the calls on a file of settings answer and write.
pub mod Faults
pub mod Files
pub mod Unknown
pub mod Writing
-- Inner facts: the names that these files share.
pub mod Prelude
