pub mod Addresses
pub mod Finding
pub mod Lists
pub mod Parts
