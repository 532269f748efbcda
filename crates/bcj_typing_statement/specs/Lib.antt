pub mod Scoped
pub mod Told
pub mod Catches
