pub mod Acts
pub mod Catches
pub mod Tests
