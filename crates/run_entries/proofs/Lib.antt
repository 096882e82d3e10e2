-- Laws for the running entries.
pub mod RightLengths
pub mod Runs
pub mod Promises
