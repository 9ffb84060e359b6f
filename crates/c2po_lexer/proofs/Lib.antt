pub mod Digits
pub mod Fronts
pub mod Names
pub mod Spans
pub mod Steps
pub mod Written
