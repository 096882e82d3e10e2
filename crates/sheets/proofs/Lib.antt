-- Laws of the sheet's records and their bytes.
pub mod FieldLengths
pub mod Stored
pub mod SheetRecords
pub mod SheetNodes
pub mod SheetLengths
pub mod LabelledSheets
