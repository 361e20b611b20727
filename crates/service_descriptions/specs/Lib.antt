-- Promises: the step of a service under a command and its parts, the texts of ids, commands,
-- services and replies, what a script is and gives, and what the streams of the program get.
pub mod Steps
pub mod Descriptions
pub mod Lines
pub mod Replies
pub mod Script
-- Promises of no single call: what follows from those definitions.
pub mod Laws
-- Inner facts: the names that these files share, how private fields make a state, and what answers
-- a line.
pub mod Prelude
pub mod Fields
pub mod LineAnswers
-- The phrases of the lines, and that no two values of one have one text.
pub mod Phrases
