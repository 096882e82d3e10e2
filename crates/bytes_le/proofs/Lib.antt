-- What the definitions of numbers in bytes promise: a number that fits comes back from its bytes, wherever they stand.
pub mod Open
pub mod Numbers
pub mod Words
pub mod Pieces
pub mod Loads
pub mod Padded
pub mod Stores
pub mod StdNumbers
pub mod Copies
pub mod Zeros
