-- Laws for runs over a table in memory: what a step does to lent bytes, a run under way, and what a run leaves.
pub mod Effects
pub mod Stacks
pub mod Showing
pub mod Changing
pub mod Underway
pub mod ProgramSteps
pub mod SavedSteps
pub mod Leavings
pub mod WholeRuns
