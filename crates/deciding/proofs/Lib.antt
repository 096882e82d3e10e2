-- Laws for where masks stand.
pub mod NotedLabels
pub mod DecidedChoices
