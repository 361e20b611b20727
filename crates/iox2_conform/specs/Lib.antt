-- Promises: what the arguments request, and what the program does for them.
pub mod Requests
pub mod Program
