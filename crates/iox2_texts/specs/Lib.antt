-- Promises: what a text, a name, a path, a pair, a set, a verifier and `align` are, what their
-- makers answer, and what errors turn into and print.
pub mod Attribute
pub mod Callbacks
pub mod Errors
pub mod Multiple
pub mod Name
pub mod Pair
pub mod Path
pub mod Text
pub mod Verify
pub mod VerifyErrors
-- Promises of no single call: what follows from those definitions.
pub mod Laws
