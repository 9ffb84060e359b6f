pub mod BoxLaws
pub mod DelayLaws
pub mod FormulaLaws
pub mod QueueLaws
