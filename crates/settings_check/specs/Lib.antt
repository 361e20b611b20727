-- Promises: what arguments request, what is found in files, how it is written, and what the streams
-- of the program get.
pub mod Answer
pub mod Found
pub mod Lines
pub mod Schema
pub mod Words
