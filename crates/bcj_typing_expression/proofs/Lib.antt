pub mod Worths
pub mod Valued
pub mod Arms
pub mod Lists
pub mod Walks
