pub mod Calls
pub mod Held
pub mod Values
mod Mirrors
pub mod RowBatches
