pub mod Carried
pub mod Causes
pub mod Limits
pub mod Own
pub mod Units
