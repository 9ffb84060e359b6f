pub mod Counts
pub mod Heads
pub mod Light
pub mod Names
pub mod Nodes
pub mod Unfolded
pub use Rattle.c2po_types.specs.Outputs
