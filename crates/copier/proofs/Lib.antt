-- Laws for sizes of records and for writing one part behind another.
pub mod TruthKinds
pub mod Parts
pub mod NodeRecords
pub mod Lengths
pub mod NodeTotals
pub mod Writers
pub mod Joins
pub mod ExpressionWrites
pub mod Descents
