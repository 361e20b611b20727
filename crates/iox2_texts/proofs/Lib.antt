pub mod Callable
pub mod ListingLemmas
pub mod Multiple
pub mod TextLemmas
pub mod VerifyLemmas
