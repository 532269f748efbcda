-- what typing is, to be believed
pub mod Limits
pub mod Steps
pub mod Judgements
pub mod Statements
pub mod Classes
pub mod Typing
-- what the code's working types stand for, which serves the proofs alone
pub mod function
