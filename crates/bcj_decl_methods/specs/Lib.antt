pub mod Candidates
pub mod Laws
pub mod Passes
pub mod Search
