-- Laws of labels and of the analysis, in reading order.
pub mod Open
pub mod Examples
pub mod WholeTables
pub mod Booleans
pub mod Masks
pub mod Order
pub mod Values
pub mod Places
pub mod Passes
pub mod Analysis
pub mod Notes
pub mod Rules
pub mod Questions
