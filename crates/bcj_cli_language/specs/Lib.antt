pub mod Tree
pub mod Plain
pub mod Scopes
pub mod Bounds
pub mod Meaning
