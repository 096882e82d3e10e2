-- Laws for reading a table record by record.
pub mod Index
pub mod Ready
pub mod Rooms
pub mod NodeKinds
pub mod Stored
pub mod Admitted
pub mod Counting
pub mod Walking
pub mod Answering
pub mod Turns
pub mod Declares
pub mod Again
