pub mod World
pub mod Subtypes
pub mod Members
pub mod Constants
pub mod Methods
pub mod Faults
pub mod Rows
pub mod function
