pub mod Evaluating
pub mod Sound
