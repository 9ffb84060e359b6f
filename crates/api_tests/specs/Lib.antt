pub mod Keeping
pub mod Joined
