pub mod Searches
pub mod Interfaces
pub mod Parts
pub mod Rows
