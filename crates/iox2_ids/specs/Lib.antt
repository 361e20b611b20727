-- Promises: how the parts of an id are packed into its number and printed, the number of a port's
-- id, and what a time is.
pub mod Packing
pub mod PortId
pub mod Time
-- Promises of no single call: what follows from those definitions.
pub mod Laws
-- Inner facts: digits that are not yet a text.
pub mod Digits
