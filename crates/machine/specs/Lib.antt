-- The machine of all boards, in reading order.
pub mod Observations
pub mod Directives
pub mod Look
pub mod Steps
pub mod Runs
pub mod Memory
pub mod Prefixes
