pub mod Contradictions
pub mod Findings
pub mod Notes
pub mod Prelude
pub mod Printable
pub mod Text
