-- What the program writes for an input.
pub mod Program
