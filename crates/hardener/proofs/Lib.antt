-- Laws for sizes and writes of hardened commands and tables.
pub mod CommandParts
pub mod CommandWrites
pub mod PartWrites
pub mod CommandSizes
pub mod PartSizes
pub mod TableWrites
