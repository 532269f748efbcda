pub mod Above
pub mod Constants
