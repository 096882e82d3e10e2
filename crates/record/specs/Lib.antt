-- What reading one record of a table answers.
pub mod RecordRead
