pub mod Open
pub mod Standing
pub mod Stretches
pub mod Cursors
