pub mod Correct
pub mod Frames
pub mod Rows
pub mod Sizes
pub mod function
