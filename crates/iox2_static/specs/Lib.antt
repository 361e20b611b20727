-- Promises: what a description and each pattern's configuration are, how many chunks are in use at
-- most, what an opener requires, what is given to a hasher, and what a description is once a borrow
-- of its pattern's configuration ends.
pub mod Blackboard
pub mod Chunks
pub mod Requirements
pub mod Description
pub mod Event
pub mod HashWrites
pub mod MessagingPattern
pub mod PublishSubscribe
pub mod RequestResponse
pub mod Satisfies
pub mod ServiceLoans
-- An inner fact, on which `ServiceLoans` rests: what a pattern is once such a borrow ends.
pub mod PatternLoans
