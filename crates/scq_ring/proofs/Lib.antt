pub mod Windows
pub mod RunLemmas
