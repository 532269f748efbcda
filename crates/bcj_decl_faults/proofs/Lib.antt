pub mod Least
pub mod Parting
pub mod Turned
pub mod Placing
