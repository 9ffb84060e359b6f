pub mod Steps
pub mod Shaping
pub mod Rows
