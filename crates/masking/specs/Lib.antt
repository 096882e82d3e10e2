-- Hardened commands of a table, by the decisions that stand in memory.
pub mod InMemory
