-- Where a saved state stands, what is saved, and what is left at the end.
pub mod Places
pub mod Leaving
