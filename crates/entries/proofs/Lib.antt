-- Laws and computed theorems of this crate.
pub mod Open
pub mod Accepted
pub mod Written
pub mod Sheet
pub mod Questions
pub mod Security
pub mod Hardened
pub mod Costs
pub mod Forward
pub mod Rolling
