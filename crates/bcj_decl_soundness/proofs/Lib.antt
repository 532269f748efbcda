pub mod Chains
pub mod Listing
pub mod Climbing
pub mod Constants
