-- What the program writes for an input, however long, and that the bytes at the front of its buffer are that.
pub mod Program
pub mod ProgramAnswers
