pub mod Listing
pub mod Loads
pub mod Lookups
pub mod Mains
pub mod Slots
pub mod Starting
pub mod Words
