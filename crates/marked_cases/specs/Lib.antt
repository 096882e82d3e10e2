-- The cases that document 01 marks P, and those that a change request is computed on, each as a theorem over whole tables of bytes and through the entries' definitions.
-- The expected bytes were worked out from the documents by a program that does not know these definitions, those of RolledBack by hand.
pub mod Claims
pub mod Refused
pub mod Orphans
pub mod Labelled
pub mod Asked
pub mod Hardened
pub mod Nought
pub mod BoundsCheck
pub mod RolledBack
pub mod Chain
pub mod Versions
pub mod Costly
pub mod Bites
