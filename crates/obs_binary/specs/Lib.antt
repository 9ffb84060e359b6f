pub mod Faults
pub mod Layout
pub mod Names
pub mod Reading
pub mod Texts
