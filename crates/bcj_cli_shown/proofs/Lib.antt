pub mod Mixed
pub mod Refusals
pub mod Asked
pub mod Outcomes
