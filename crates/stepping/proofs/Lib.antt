-- Laws for evaluation and for the next step over a table in memory.
pub mod Words
pub mod Evaluation
pub mod Actions
pub mod ShownSteps
pub mod NextSteps
