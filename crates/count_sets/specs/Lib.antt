pub mod Counting
pub mod Gates
pub mod Tables
