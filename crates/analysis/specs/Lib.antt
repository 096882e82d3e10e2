-- What labelling a table in memory requires and leaves.
pub mod Notes
pub mod Marks
pub mod Warm
pub mod Conditions
