pub mod Answers
pub mod Filled
pub mod Ready
pub mod Searched
pub mod Worlds
