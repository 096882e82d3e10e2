-- What comes out by a command's fields, what is kept while it is measured, and what writing a hardened table requires and leaves.
pub mod Forms
pub mod Sizes
pub mod Output
