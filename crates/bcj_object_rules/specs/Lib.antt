pub mod Records
pub mod Objects
pub mod Sizes
pub mod Rows
