pub mod Initials
pub mod Scopes
pub mod Surroundings
