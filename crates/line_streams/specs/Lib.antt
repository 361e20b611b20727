-- Promises: the texts of phrases, and what a failed stream has read or written.
pub mod Spelling
pub mod Streams
pub mod Filters
-- Lemmas that the laws of the phrases cite: each is read in one way.
pub mod Numerals
pub mod OneWay
