-- Decisions, masks and the hardened program, in reading order.
pub mod Decisions
pub mod Hardening
pub mod Covering
pub mod SameRun
pub mod Security
pub mod Growth
pub mod ReadBack
pub mod Demands
pub mod Costs
