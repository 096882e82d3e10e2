-- Laws of this crate.
pub mod Numbers
