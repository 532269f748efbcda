pub mod Assembly
pub mod Forms
pub mod Lists
pub mod Reach
pub mod Rounds
pub mod function
