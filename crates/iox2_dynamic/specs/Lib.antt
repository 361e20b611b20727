-- Promises: what the details of a port say, what a service and its ports are, what the calls on
-- them do and answer, and what becomes of the ports and nodes of a dead node.
pub mod Details
pub mod Service
pub mod Ports
pub mod Steps
-- Inner facts: the names that these files share, and how private fields make
-- what contracts see of a service.
pub mod Prelude
pub mod Patterns
