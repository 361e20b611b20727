-- Promises: the commands, the states and the lines of logs, and how lines begin.
pub mod Commands
pub mod States
pub mod Lines
pub mod Forms
pub mod Laws
