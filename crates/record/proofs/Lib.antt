-- Laws for reading one record of a table.
pub mod Passing
pub mod Declaring
pub mod Sorting
pub mod Tally
pub mod Searching
pub mod RecordForms
pub mod RecordKinds
