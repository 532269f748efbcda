pub mod Stops
pub mod Numbers
pub mod Rows
pub mod Loads
pub mod Walks
pub mod Hierarchies
