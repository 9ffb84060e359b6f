pub mod Spans
pub mod Boxes
pub mod Nodes
pub mod Tables
pub mod Running
pub mod Standing
