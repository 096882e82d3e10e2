-- What the code of the questions entry asks and answers.
pub mod Noted
