pub mod Records
pub mod Indexing
pub mod Reaching
pub mod Searching
pub mod Using
