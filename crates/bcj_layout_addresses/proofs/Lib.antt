pub mod Growing
pub mod Placing
pub mod Classes
pub mod FirstWords
pub mod Lookups
