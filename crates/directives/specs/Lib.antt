-- What the code of directives asks and answers.
pub mod Listed
pub mod Guiding
pub mod Changes
pub mod Starts
pub mod Fitting
