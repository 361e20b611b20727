-- Promises: what was seen of services, what the lines of a log are, what it is judged to be, what
-- holds of all logs, what is written of a log, and in which order calls took effect.
pub mod Seen
pub mod Reading
pub mod Logs
pub mod SameLogs
pub mod Laws
pub mod Good
pub mod EventLines
pub mod Reports
pub mod Orders
pub mod Progress
-- Inner facts: what the fields of what is read tell.
pub mod Parts
pub mod Fields
pub mod Judging
pub mod Settling
