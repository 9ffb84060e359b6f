pub mod Written
pub mod Said
pub mod Unfolded
pub mod Named
