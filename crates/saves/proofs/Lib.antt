-- Laws of saved states: the list of pending commands in bytes, a state saved, copied back, and left at the end.
pub mod Copying
pub mod Pending
pub mod Places
pub mod Parts
pub mod Saved
pub mod Restored
pub mod Leaving
pub mod PlaceWords
pub mod Left
