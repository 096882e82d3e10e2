-- Laws for the analysis over a table in memory, and for its notes.
pub mod AllPublic
pub mod Warm
pub mod Settling
pub mod CommandNotes
pub mod CommandCases
pub mod WholeProgram
pub mod NotedPrograms
