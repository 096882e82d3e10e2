-- What reading a table in memory answers, and what the index of its records says.
pub mod Index
pub mod Admitted
pub mod Classes
pub mod Walk
