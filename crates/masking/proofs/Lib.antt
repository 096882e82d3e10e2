-- Laws for what masks and flag updates write.
pub mod DecidedProgram
pub mod TwoParts
pub mod Masking
pub mod AccessWrites
