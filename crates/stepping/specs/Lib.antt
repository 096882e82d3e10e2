-- What deciding on the next step requires and answers.
pub mod Evaluation
pub mod Actions
pub mod Stepping
pub mod Lending
