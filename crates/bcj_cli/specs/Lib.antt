pub mod Command
pub mod Runs
pub mod Sources
pub mod function
