pub mod Outputs
pub mod Styles
pub mod Joining
pub mod OneByOne
