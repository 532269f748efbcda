pub mod Accepted
pub mod Answers
pub mod Laws
pub mod Names
pub mod Refusals
pub mod Texts
