-- What the inner functions of the running entries answer and leave.
pub mod Lengths
pub mod Runs
