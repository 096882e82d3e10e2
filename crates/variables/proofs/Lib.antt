-- Laws of the variables in expressions.
pub mod MaskMeets
pub mod Nodes
pub mod ExpressionNodes
pub mod Naming
