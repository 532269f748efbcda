pub mod Openings
pub mod Lists
pub mod Steps
