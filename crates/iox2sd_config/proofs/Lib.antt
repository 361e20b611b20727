pub mod Listed
mod Prelude
