-- What the entries that write are asked for, and what their inner functions ask and leave.
pub mod Jobs
pub mod Memory
