-- The records of a labelled table as the code has them.
pub mod Rows
