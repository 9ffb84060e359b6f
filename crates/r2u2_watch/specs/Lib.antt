pub mod Endings
pub mod Feed
pub mod Trace
pub mod Watch
pub mod Telling
pub mod Turns
