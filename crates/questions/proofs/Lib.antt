-- Laws of this crate.
pub mod Lists
pub mod NotedAnswers
