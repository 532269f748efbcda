pub mod Steps
pub mod Rounding
pub mod Reached
pub mod Emitting
