pub mod Faults
pub mod ItemShape
pub mod Names
pub mod Nodes
pub mod Outputs
pub mod Parts
pub mod Shape
pub mod Tenses
