-- The entries: from all memory at entry and the numbers passed, to all memory at exit and the answer. In reading order.
pub mod Answers
pub mod Writing
pub mod Running
pub mod Rolling
pub mod Security
pub mod Promises
