pub mod Classes
pub mod Entries
pub mod Listed
pub mod Start
