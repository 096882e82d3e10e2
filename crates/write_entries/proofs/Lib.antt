-- Laws of this crate.
pub mod Doing
pub mod Jobs
pub mod Labelled
pub mod Promises
