pub mod Form
pub mod Shows
pub mod Causes
pub mod Sayings
