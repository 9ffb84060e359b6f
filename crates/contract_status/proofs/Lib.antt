pub mod Opening
pub mod Knowing
pub mod Stretching
pub mod Moving
pub mod Placing
pub mod Draining
mod Looking
