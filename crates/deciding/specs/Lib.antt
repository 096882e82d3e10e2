-- Decisions on masks in memory.
pub mod Deciding
