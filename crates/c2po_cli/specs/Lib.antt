pub mod Asking
pub mod Made
pub mod Images
pub mod Upgrading
pub mod Run
pub mod Showing
pub mod Written
pub mod Phases
