-- Promises: histories of calls that overlapped, the orders that explain them, and their law.
pub mod Histories
-- Promises: what events do to a front, where it begins anew, and what a search finds.
pub mod Advances
-- Promises: windows of histories, what is found of a history, which calls are needed for it, and
-- fronts that go on while replies are still to come.
pub mod Windows
-- Inner facts: the configurations that are followed.
pub mod Frontier
-- Inner facts: how configurations are gathered and put into chains, and calls are made in them.
pub mod Gathering
