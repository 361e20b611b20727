-- Promises: the numbers and texts of statuses, what exports answer beside a status, ids, settings
-- as plain values, and how those that a caller filled are read.
pub mod Answers
pub mod Ids
pub mod ReadSettings
pub mod Settings
pub mod Status
