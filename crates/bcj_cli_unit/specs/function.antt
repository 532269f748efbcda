pub mod Built
pub mod Outcomes
