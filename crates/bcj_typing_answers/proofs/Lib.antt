pub mod Choosing
pub mod Growing
pub mod Rounds
pub mod Answered
