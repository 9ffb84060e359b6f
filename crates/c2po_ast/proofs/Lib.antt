pub mod Copying
pub mod NoFaults
pub mod Places
pub mod Pushing
pub mod Rows
