-- What copying expressions requires and leaves.
pub mod Records
pub mod Written
pub mod Sizes
pub mod Totals
