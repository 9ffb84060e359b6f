pub mod Comparing
pub mod Kept
pub mod Runs
