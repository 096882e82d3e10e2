-- Little-endian numbers in lists of bytes: the layout of every number in a table, a sheet, a list, a state and an answer.
pub mod Numbers
