-- Promises: what is drawn of a log, which calls it has, where they took effect, what the text of a
-- picture is, and where things stand in it.
pub mod Drawings
pub mod Calls
pub mod Timelines
pub mod Svg
pub mod Coordinates
