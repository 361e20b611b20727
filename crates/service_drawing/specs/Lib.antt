-- Promises: how a description is spelled, what is drawn of it, and what the streams of the program
-- get.
pub mod Bars
pub mod Descriptions
pub mod Layout
pub mod Lines
pub mod Settings
pub mod Streams
pub mod Svg
