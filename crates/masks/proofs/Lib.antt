-- Laws of the hardened program, in reading order.
pub mod Open
pub mod Examples
pub mod WholeTables
pub mod Decisions
pub mod Growth
pub mod Origins
pub mod ReadBack
pub mod SameRunSteps
pub mod SameRunBudgets
pub mod SameRun
pub mod Locked
pub mod Agreement
pub mod OneStep
pub mod Security
pub mod Demands
pub mod Telling
pub mod Costs
