pub mod Decisions
pub mod Earlier
pub mod Last
pub mod Inherited
pub mod Refusal
