mod Known
mod Passed
mod Paths
