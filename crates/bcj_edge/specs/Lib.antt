pub mod Causes
pub mod Host
pub mod Lists
pub mod Memory
pub mod Pieces
pub mod Replaced
pub mod Store
pub mod function
