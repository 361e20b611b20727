pub mod Names
pub mod ReplyLines
pub mod Keeping
pub mod Lines
pub mod Serving
pub mod Scripts
pub mod SameReply
