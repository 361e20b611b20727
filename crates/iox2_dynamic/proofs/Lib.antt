pub mod Names
pub mod Callbacks
pub mod Keeping
pub mod Recoveries
pub mod Rooms
pub mod Sending
