pub mod Unfolding
pub mod Thresholds
pub mod Cells
pub mod Ends
pub mod Sharing
