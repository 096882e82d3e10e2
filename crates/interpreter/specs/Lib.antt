-- What running a table in memory requires and leaves.
pub mod Effects
pub mod Lending
pub mod Running
