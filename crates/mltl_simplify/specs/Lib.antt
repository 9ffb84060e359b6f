pub mod Forms
pub mod Simplify
pub mod Numbers
pub mod Nodes
pub mod Outputs
