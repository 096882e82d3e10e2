-- The variables that can make an expression secret, and what the code notes of them.
pub mod Variables
pub mod Named
