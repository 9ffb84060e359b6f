pub mod LastRows
pub mod Taking
pub mod Telling
pub mod Keeping
pub mod Resetting
pub mod Holding
pub mod Settled
pub mod Alike
pub mod Fitting
pub mod Delays
pub mod FewReports
pub mod Known
mod Giving
