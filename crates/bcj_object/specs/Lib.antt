pub mod Answers
pub mod function
