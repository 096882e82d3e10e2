-- Labels, the analysis, the label sheet and label questions, in reading order.
pub mod Masks
pub mod Labellings
pub mod Places
pub mod Analysis
pub mod Annotation
pub mod Sheet
pub mod Questions
pub mod Rules
