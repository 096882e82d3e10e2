-- The language and its table, in reading order.
pub mod Language
pub mod Lists
pub mod Refusals
pub mod Nodes
pub mod Tables
pub mod VersionOne
pub mod Trees
pub mod Standing
pub mod Encoding
pub mod WellFormed
